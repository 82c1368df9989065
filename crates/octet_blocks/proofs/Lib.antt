mod Written
mod Fed
mod Journals
mod Own
mod Files
mod Given
mod Adding
