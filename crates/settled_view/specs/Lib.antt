pub mod BuiltBut
