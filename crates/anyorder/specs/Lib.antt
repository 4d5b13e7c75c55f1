pub mod EntryUnion
pub mod OneByOne
