pub mod App
pub mod Given
pub mod Laws
pub mod Lines
pub mod Numbers
pub mod Table
pub mod Task
