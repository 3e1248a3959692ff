pub mod RecordLaws
pub mod Replies
