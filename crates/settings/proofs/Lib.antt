mod Counting
mod Named
mod Rows
mod Texts
mod WrittenOut
