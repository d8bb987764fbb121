pub mod TermsByHand
