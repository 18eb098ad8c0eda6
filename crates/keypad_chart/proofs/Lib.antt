pub mod Chart
