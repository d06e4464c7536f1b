pub mod Buffering
pub mod Settling
pub mod FoldersTaken
pub mod Inspected
