pub mod CaseLine
