pub mod ThreePlants
