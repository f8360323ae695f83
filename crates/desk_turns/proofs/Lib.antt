pub mod TurnLaws
