mod Clap
mod Rows
