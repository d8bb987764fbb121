pub mod MixedSettlements
pub mod Settlements
