pub mod WitnessLaws
