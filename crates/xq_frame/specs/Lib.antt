pub mod Frame
pub mod Request
pub mod Next
pub mod Reply
pub mod Taking
pub mod Sending
pub mod Interruptions
pub mod private
