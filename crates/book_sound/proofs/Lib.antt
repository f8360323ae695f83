pub mod SoundLaws
pub mod WaitLaws
