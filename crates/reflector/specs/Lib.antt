pub mod Senders
pub mod Tellings
pub mod Visits
pub mod Promise
pub mod History
pub mod Links
pub mod Course
