-- Words (01: codes) as the operation try is given them, and the marks by which a mask is compared with one.
pub mod Word
pub mod Marks
