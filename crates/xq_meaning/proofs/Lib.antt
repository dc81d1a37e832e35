pub mod Equations
pub mod CoreEquations
pub mod PlanEquations
pub mod SameForms
pub mod Turns
pub mod Growth
pub mod PlanGrowth
pub mod Writing
pub mod CoreWriting
pub mod PlanWriting
pub mod Library
mod WorkedRows
mod RefusalRows
mod OperatorRows
mod PathRows
mod ConstructorRows
mod FlworRows
mod ChainRows
mod FunctionRows
mod MoreFunctionRows
mod LimitRows
mod MillionRows
mod CoreRows
mod PlanRows
mod LanguageRows
mod MoreLanguageRows
mod TwoDocumentRows
pub mod PathLemmas
