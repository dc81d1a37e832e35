pub mod Answers
pub mod Kinds
pub mod Judgements
pub mod private
