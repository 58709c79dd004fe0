pub mod StepAdmitted
pub mod Stored
