pub mod lemmas
mod FewAccesses
mod Executions
mod Examples
