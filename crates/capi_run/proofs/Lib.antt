pub mod StepsToGo
pub mod NoSteps
pub mod Laws
