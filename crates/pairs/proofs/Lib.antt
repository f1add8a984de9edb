pub mod Cursors
pub mod Numbering
pub mod Numbers
pub mod Walking
