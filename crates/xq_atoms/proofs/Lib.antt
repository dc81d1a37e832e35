mod AtomRows
pub mod Keys
pub mod KeyOrder
pub mod OperandsLemmas
pub mod TextLemmas
pub mod PrintLemmas
pub mod ReadBack
pub mod Classes
pub mod Names
