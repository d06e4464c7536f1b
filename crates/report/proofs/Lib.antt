mod Lines
mod Sorting
