pub mod Numeral
pub mod Micrometres
pub mod Scan
pub mod NumFault
