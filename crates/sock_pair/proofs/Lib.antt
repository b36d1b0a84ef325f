pub mod ScriptEvents
pub mod ScriptLanes
pub mod ScriptNumbers
pub mod ScriptTextLemmas
pub mod ReplaySinks
pub mod ReplaySources
pub mod ReplayPlays
