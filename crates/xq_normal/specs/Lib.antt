pub mod DocumentPaths
pub mod private
