pub mod PidMaps
