mod Filled
mod Ascii
mod Alone
