mod Logs
mod Passes
