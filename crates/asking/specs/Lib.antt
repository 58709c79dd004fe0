pub mod WhyRefused
