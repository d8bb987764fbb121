pub mod ConductCalls
