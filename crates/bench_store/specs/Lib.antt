-- What the benchmarks' calls promise.
pub mod Growing
