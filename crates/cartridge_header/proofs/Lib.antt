pub mod Meanings
pub mod Numbers
pub mod Places
pub mod Unread
pub mod Computed
