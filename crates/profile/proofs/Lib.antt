pub mod ProfileLaws
