mod Rows
mod Sifting
