pub mod OneLayout
