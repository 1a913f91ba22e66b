mod Alike
mod Indexes
