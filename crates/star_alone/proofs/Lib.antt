mod Answers
mod Pages
mod Recording
mod Waits
