pub mod FaultNumber
