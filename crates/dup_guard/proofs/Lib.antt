mod Notes
mod Parts
