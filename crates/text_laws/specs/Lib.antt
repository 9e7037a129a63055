pub mod SoundTypes
