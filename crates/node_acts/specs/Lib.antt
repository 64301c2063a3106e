pub mod Script
pub mod ScriptLaws
