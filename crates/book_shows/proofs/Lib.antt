mod Feeds
mod Sections
mod Turns
mod Books
