-- No answer depends on what the absent slots hold: `same_answers`, `other_run` (Runs), of all the calls (Calls).
pub mod Alike
pub mod Shown
pub mod Start
pub mod Create
pub mod Rebuild
pub mod Blocks
pub mod Repair
pub mod Own
pub mod Calls
pub mod Agree
pub mod Small
pub mod Once
pub mod Single
pub mod Runs
