-- What the C functions answer, and what their callers read out of it.
pub mod Numbers
pub mod Back
