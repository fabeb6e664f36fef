pub mod GivenNames
