pub mod Fronts
pub mod Executing
pub mod Feeds
pub mod UnderWay
pub mod Scripts
pub mod Acknowledged
pub mod Courses
