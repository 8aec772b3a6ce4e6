pub mod Heading
pub mod Ordering
pub mod Exactness
pub mod Texts
pub mod Sheets
pub mod Replies
