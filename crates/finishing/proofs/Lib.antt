pub mod Appended
pub mod Leads
pub mod Problem
pub mod Numbers
pub mod FileParts
pub mod Known
pub mod AfterNumbering
