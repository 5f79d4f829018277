pub mod Books
pub mod Calling
pub mod Closes
pub mod Laws
pub mod Opens
pub mod RoomSteps
