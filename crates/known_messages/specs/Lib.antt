pub mod KnownMessages
