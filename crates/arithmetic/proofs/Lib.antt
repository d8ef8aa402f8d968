pub mod Results
mod Facts
