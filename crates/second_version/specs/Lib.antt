pub mod SecondVersion
