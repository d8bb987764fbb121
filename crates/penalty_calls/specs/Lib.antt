pub mod SanctionCalls
