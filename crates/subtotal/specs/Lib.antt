pub mod Subtotal
pub mod AddToE
